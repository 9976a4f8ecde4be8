pub mod Ring
pub mod Posting
pub mod Polling
pub mod Runs
pub mod Laws
