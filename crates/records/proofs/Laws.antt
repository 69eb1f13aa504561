pub mod Append
pub mod Decimal
pub mod Enough
pub mod Head
pub mod Piece
pub mod Record
