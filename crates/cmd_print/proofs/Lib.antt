pub mod NameBytes
