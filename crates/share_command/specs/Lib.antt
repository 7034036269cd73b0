pub mod Share
pub mod Few
