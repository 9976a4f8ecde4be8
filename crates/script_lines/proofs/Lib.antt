pub mod Numerals
pub mod Parting
pub mod PlainLines
pub mod SaidLines
pub mod Telling
