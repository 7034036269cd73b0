pub mod Header
pub mod Gpt
