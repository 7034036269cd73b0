mod Choices
pub mod Uses
mod WordLaws
pub mod Regions
pub mod Leaves
mod Empty
mod Walked
mod Blocks
mod Histories
mod SharedWords
mod SharedWrites
mod SharedHistories
mod Owned
