pub mod CellLemmas
pub mod OverflowLemmas
pub mod StoreLemmas
pub mod GrownLemmas
pub mod JoinLemmas
pub mod TakeLemmas
pub mod QueueLemmas
