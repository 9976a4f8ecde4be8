pub mod Data
pub mod Kept
pub mod Watched
pub mod Looks
