pub mod Sides
pub mod Fields
pub mod CutLine
pub mod Breach
pub mod Found
pub mod Full
pub mod Laws
