pub mod First
pub mod Found
pub mod Least
pub mod Holding
pub mod Decided
pub mod Broken
