pub mod Touched
pub mod Films
pub mod Laws
pub mod Telling
