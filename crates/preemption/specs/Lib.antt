pub mod Places
pub mod Wide
pub mod Turns
pub mod Tested
pub mod Begun
pub mod Laws
pub mod Searched
