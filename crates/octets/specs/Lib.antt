pub mod Lent
pub mod Number
pub mod Octets
pub mod Over
pub mod Padding
pub mod Part
pub mod Text
