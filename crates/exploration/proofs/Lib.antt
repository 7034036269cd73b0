pub mod Runs
mod Safe
mod Wants
mod Missing
mod Answered
mod EveryEvent
mod Spaces
mod Shown
pub mod Slots
