pub mod Pictures
pub mod Bands
pub mod Films
pub mod Periods
