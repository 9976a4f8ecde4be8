pub mod Changes
pub mod Shown
pub mod CellTable
pub mod Counts
pub mod Index
pub mod KeptSlots
