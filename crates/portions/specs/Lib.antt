pub mod Calls
pub mod Fed
pub mod Finish
pub mod Name
pub mod Portion
pub mod State
pub mod Theorems
pub mod Window
