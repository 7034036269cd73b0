pub mod Gathered
mod Lengths
pub mod Most
pub mod Allowed
pub mod Exactly
pub mod Meant
pub mod Marking
pub mod Listed
mod Every
pub mod Placed
mod Remedies
