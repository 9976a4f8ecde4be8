pub mod Front
pub mod Told
pub mod Gathered
