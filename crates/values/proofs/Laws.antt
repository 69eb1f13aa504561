pub mod Body
pub mod Float
pub mod Signed
pub mod Value
pub mod Write
