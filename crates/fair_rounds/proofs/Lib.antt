mod Places
mod Spreading
pub mod Passing
pub mod Lassos
mod Edges
mod Counting
mod Walls
mod Wanting
mod Looping
mod Evasions
mod WaysBack
mod Falling
mod Flooding
pub mod Meaning
pub mod Fairness
