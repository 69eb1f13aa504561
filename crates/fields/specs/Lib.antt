pub mod Field
pub mod Theorems
