pub mod DirtGrows
pub mod Steps
pub mod Runs
