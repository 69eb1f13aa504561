pub mod Answer
pub mod Enough
pub mod Filled
pub mod Lines
pub mod Reached
pub mod Records
pub mod Slot
