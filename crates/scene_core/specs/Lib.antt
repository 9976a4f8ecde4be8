pub mod View
pub mod Children
pub mod Measured
pub mod Known
pub mod Sides
pub mod Places
pub mod Laid
