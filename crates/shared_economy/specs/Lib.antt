pub mod Counts
pub mod Need
pub mod Accesses
pub mod Laws
pub mod Worked
