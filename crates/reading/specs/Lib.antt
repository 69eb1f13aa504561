pub mod Case
pub mod Fields
pub mod Held
pub mod Label
pub mod Same
