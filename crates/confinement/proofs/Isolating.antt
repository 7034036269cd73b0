mod Agreeing
pub mod Walks
mod Answering
mod Matching
mod Delivering
pub mod Operating
pub mod States
pub mod Messaging
mod Kernel
pub mod Events
mod Turns
pub mod Runs
pub mod Told
