pub mod Tests
pub mod Members
pub mod Records
pub mod Coded
pub mod Sets
pub mod Notes
mod Places
mod Listed
mod Linked
mod Tables
mod Searched
mod Relinked
