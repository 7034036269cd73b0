mod Statements
mod Listed
pub mod Stored
pub mod Objects
