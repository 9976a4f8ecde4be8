pub mod Walks
pub mod Orders
pub mod Numbers
pub mod ByNumbers
pub mod ViewNumbers
pub mod Views
