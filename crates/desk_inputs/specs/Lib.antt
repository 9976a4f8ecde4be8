pub mod Carried
pub mod Raised
pub mod Asked
