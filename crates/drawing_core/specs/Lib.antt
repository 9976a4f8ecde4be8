pub mod Marking
pub mod Drawing
pub mod Following
pub mod Banding
