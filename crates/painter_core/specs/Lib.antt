pub mod Layers
pub mod Trail
pub mod Painted
pub mod Stage
pub mod Painting
pub mod Banding
pub mod Runs
pub mod Lines
