pub mod Decimal
pub mod Enough
pub mod Head
pub mod Line
pub mod Listing
pub mod Record
