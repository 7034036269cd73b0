pub mod Spans
pub mod Move
pub mod Laws
