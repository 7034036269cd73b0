mod Steps
mod Lags
mod Running
mod Beginning
pub mod Simulating
mod Rounds
mod Spelling
mod Below
mod Growing
mod Reached
mod Cutting
mod Staying
mod Settled
pub mod Found
pub mod Held
