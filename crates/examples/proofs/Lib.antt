pub mod Days
pub mod Examples
pub mod Listings
pub mod Values
