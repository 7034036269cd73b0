pub mod Covering
pub mod Walked
pub mod Operations
pub mod Alone
pub mod Spent
