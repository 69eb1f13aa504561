pub mod Label
pub mod Queue
pub mod Record
