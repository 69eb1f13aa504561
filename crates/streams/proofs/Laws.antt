pub mod Input
pub mod Known
pub mod Window
