pub mod Passed
pub mod Packed
pub mod Unpacked
pub mod Same
