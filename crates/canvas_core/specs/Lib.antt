pub mod Screen
pub mod Lending
