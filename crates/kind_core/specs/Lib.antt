pub mod Bytes
pub mod Padded
pub mod Attributes
pub mod Events
pub mod Effective
