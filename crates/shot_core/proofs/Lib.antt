pub mod Listed
pub mod Bare
