pub mod Words
pub mod Language
pub mod Productions
pub mod Grammar
