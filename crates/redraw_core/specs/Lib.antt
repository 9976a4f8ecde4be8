pub mod Dirt
pub mod Cells
pub mod Marking
pub mod Pairs
pub mod Stored
pub mod Stores
