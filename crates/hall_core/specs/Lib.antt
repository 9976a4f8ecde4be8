pub mod Tape
pub mod Entries
pub mod Books
