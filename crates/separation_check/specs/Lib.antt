pub mod Crossings
pub mod Each
pub mod Placed
pub mod Marks
