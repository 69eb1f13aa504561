pub mod Send
pub mod Theorems
