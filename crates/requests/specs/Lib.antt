pub mod Amended
pub mod Carried
pub mod Defaults
pub mod Request
pub mod Section
pub mod Steps
