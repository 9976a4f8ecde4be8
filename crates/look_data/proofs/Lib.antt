pub mod LookSteps
pub mod KeptLemmas
pub mod LooksLemmas
pub mod LinkedNumbers
