pub mod Pass
pub mod Block
