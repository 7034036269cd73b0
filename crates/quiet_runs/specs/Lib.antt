pub mod Runs
pub mod Reaching
pub mod Finding
pub mod Laws
pub mod Begun
pub mod RoundLaws
