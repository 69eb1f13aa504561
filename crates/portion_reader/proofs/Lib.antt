pub mod Refusals
pub mod Row
pub mod Theorems
