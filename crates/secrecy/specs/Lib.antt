pub mod Demand3
pub mod Proposed
pub mod Refused
pub mod Unread
pub mod WithoutName
