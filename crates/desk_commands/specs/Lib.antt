pub mod Pointer
pub mod Parts
pub mod Effects
pub mod Lookup
pub mod TreeRefusals
pub mod Tracks
pub mod Screens
pub mod Beating
