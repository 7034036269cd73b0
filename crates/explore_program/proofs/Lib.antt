mod Cycles
mod Rounds
mod Schedules
mod Stating
mod Verdicts
mod Setting
mod Asking
mod Slots
pub mod Called
mod Wanting
