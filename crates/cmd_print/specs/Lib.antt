pub mod Printed
pub mod Replies
