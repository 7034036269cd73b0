pub mod Bound
pub mod Told
pub mod Appended
mod Added
mod Meets
pub mod Economic
pub mod Entries
mod Noted
mod Worked
mod Selective
