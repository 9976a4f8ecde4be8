pub mod ClientList
pub mod View
pub mod Touching
pub mod Visits
pub mod Kept
pub mod Asking
pub mod Feeding
pub mod Watching
