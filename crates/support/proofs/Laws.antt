pub mod Compared
pub mod Copied
pub mod Laid
pub mod Mask
pub mod Proposed
