pub mod Writing
pub mod Operating
pub mod Events
