pub mod Leaves
pub mod Rounds
pub mod Told
pub mod Tallies
pub mod Ran
pub mod Reading
pub mod ReadOn
pub mod Scheduled
pub mod Asked
mod Gains
mod First
pub mod SoFar
pub mod Counted
pub mod Ended
