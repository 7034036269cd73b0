pub mod Performed
mod Quiet
mod Counting
pub mod Slots
