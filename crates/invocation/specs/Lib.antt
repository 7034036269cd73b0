pub mod Invocation
pub mod Answerer
pub mod Target
pub mod Delivery
