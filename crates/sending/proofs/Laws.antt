pub mod Carried
pub mod Given
pub mod Retired
pub mod Send
pub mod Units
