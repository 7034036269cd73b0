pub mod Each
pub mod Names
pub mod Record
pub mod Walk
pub mod Mapping
pub mod Objects
pub mod Standing
pub mod State
