pub mod Counts
pub mod Economy
pub mod Ages
pub mod Follows
pub mod Laws
pub mod Worked
