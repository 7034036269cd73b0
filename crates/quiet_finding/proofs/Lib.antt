mod Joining
mod Folding
mod After
mod Places
mod Rounds
mod Recipients
mod Writes
mod Written
mod Leading
mod Secluded
mod Accessing
pub mod Walking
pub mod Kept
