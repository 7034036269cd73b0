pub mod Joined
pub mod Sides
pub mod Told
pub mod Few
