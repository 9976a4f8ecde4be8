pub mod Holds
pub mod Children
pub mod Kept
pub mod Refusals
