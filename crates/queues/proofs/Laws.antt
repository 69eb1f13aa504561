pub mod Read
pub mod RoundTrip
pub mod Steps
pub mod Write
