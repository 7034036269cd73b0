mod WellFormed
mod Entered
mod Called
mod Given
pub mod Delivered
mod Sent
