pub mod Placed
pub mod Numbers
pub mod Laid
pub mod Settled
