pub mod Edited
pub mod Numbered
pub mod Seen
pub mod Live
