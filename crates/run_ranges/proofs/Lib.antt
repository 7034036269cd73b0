pub mod Words
pub mod Objects
pub mod Messages
pub mod Rows
pub mod Strings
pub mod Events
