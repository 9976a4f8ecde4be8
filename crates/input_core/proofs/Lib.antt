pub mod Numbers
pub mod Keys
pub mod Links
pub mod Limits
pub mod Posting
pub mod Steps
pub mod Effected
