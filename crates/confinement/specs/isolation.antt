pub mod Agree
pub mod Turns
pub mod Laws
pub mod Isolation
