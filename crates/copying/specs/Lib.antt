pub mod Copies
pub mod Example
pub mod Record
pub mod Theorems
