pub mod Numbers
pub mod Sayings
pub mod Lines
pub mod Payloads
pub mod Suits
pub mod Laws
pub mod Reading
pub mod Saying
