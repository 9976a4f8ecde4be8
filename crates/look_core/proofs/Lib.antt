pub mod FontLemmas
pub mod StrokeLemmas
pub mod LetterLemmas
pub mod KnobLemmas
pub mod SameLemmas
