pub mod Followed
mod Destroyed
mod Changes
mod Operations
pub mod Events
pub mod Bounds
