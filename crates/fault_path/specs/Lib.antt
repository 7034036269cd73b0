pub mod message_path
pub mod Fault
