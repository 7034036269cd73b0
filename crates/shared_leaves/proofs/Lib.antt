pub mod Codes
mod Keyed
mod Invariant
pub mod Economy
mod Filed
mod Readings
mod Connected
mod Blank
mod Adding
pub mod Dropped
mod Taking
mod Unlinked
mod Cleared
mod Forgotten
mod Changed
mod Linked
mod Regional
mod Parted
mod Served
