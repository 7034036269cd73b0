pub mod Passages
pub mod Permission
pub mod Unused
pub mod Least
pub mod Needed
