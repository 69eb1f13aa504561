pub mod Case
pub mod Decided
pub mod Fields
pub mod Held
pub mod Label
pub mod Located
pub mod Passed
pub mod Same
