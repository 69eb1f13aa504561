pub mod Day
pub mod Slot
pub mod Theorems
