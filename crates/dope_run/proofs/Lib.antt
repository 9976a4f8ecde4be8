pub mod Obeyings
pub mod Dumps
pub mod Performings
