pub mod Stated
pub mod Confine
pub mod Decided
pub mod Laws
