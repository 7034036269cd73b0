pub mod Queues
pub mod Standing
pub mod Ready
pub mod Home
