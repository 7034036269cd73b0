pub mod Looks
mod Kept
mod Removed
mod Found
