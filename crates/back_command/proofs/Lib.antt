mod Histories
mod Remembering
mod Concluding
mod Behind
pub mod Slots
