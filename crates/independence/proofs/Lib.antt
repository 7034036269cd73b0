mod Overlay
mod Beside
mod Answering
mod Delivering
mod Operating
mod States
mod Messaging
mod Kernel
mod Events
mod Runs
mod Settling
mod Walking
pub mod Shape
pub mod Quieting
pub mod Commuting
