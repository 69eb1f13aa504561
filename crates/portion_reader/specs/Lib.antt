pub mod Answer
pub mod Counters
pub mod Security
pub mod Theorems
