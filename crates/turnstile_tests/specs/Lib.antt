pub mod Lines
pub mod Ledgers
