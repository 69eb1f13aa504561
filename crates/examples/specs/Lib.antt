pub mod Days
pub mod Examples
pub mod Inputs
pub mod Listings
pub mod Values
