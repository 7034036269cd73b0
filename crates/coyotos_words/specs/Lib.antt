pub mod Command
pub mod Forms
pub mod Matches
pub mod Usage
