pub mod Entries
pub mod RunEntries
pub mod Counts
pub mod Behind
pub mod Bounded
