pub mod Serving
pub mod Calls
pub mod Laws
