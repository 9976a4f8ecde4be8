pub mod KeyNumbers
pub mod Layouts
pub mod LeftPlaces
