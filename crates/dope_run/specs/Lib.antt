pub mod Text
pub mod Report
pub mod Script
pub mod Playing
pub mod Transcript
pub mod Obeying
pub mod Lawfully
