pub mod Shots
pub mod Spots
