pub mod FrameLine
pub mod Reading
pub mod ReadingWords
pub mod ReadingOptions
pub mod ReadingLines
pub mod Misread
pub mod Laws
