pub mod Rect
pub mod Pieces
pub mod Splits
pub mod Count
pub mod Laws
