pub mod Ran
pub mod Induction
mod Destroyed
mod Told
