pub mod Command
pub mod Made
pub mod Input
pub mod Program
pub mod Laws
pub mod Contract
pub mod Flushed
