pub mod Depend
pub mod Place
pub mod Chain
pub mod Keyed
pub mod Notes
