pub mod Followed
pub mod Fault
pub mod Strings
pub mod Message
pub mod Waiting
pub mod Laws
