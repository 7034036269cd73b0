mod Objects
mod Rows
pub mod Events
pub mod Booted
pub mod Reading
