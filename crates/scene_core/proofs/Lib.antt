pub mod Lengths
pub mod Needs
pub mod Numbered
pub mod ChildNumbers
pub mod ChildNeeds
mod AskedSteps
pub mod OwnSizes
pub mod TrackSteps
pub mod LeastSteps
pub mod Measures
pub mod Finds
pub mod OneNumber
pub mod Tops
pub mod SideSteps
pub mod Roots
pub mod PlaceSteps
pub mod LaySteps
