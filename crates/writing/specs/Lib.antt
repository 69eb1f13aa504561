pub mod Fixed
pub mod Given
pub mod Laid
pub mod Theorems
pub mod Writing
