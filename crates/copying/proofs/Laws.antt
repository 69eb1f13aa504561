pub mod Fits
pub mod Room
pub mod Written
