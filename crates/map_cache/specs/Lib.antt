pub mod Key
pub mod Kept
pub mod Cache
pub mod Coherent
pub mod Mappings
pub mod Held
pub mod Effects
pub mod Less
