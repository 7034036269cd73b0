pub mod Key
pub mod Kept
pub mod Cache
pub mod Coherent
pub mod Effects
