pub mod Areas
pub mod Raised
pub mod Numbering
pub mod Views
