pub mod Putting
pub mod Concluding
pub mod Again
pub mod Sound
