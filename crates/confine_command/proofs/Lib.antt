pub mod Verdicts
pub mod Awake
pub mod Stating
pub mod Deciding
pub mod Sound
mod Finding
pub mod Written
