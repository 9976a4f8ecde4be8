pub mod Frames
pub mod Unmoved
mod LoneRows
mod NewStays
mod DropStays
mod LeftAsked
pub mod SetStays
pub mod StillCommands
pub mod BeatPlaces
