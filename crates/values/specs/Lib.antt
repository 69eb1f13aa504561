pub mod Read
pub mod Theorems
pub mod Value
pub mod Write
