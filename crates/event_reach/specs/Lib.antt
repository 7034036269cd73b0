pub mod Reach
pub mod Looked
pub mod Plain
pub mod Reads
pub mod FreshWalks
