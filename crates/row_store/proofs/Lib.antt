pub mod Options
pub mod ShownLemmas
pub mod UnderNumbers
pub mod UnderNames
pub mod CountsLemmas
pub mod FilledUp
