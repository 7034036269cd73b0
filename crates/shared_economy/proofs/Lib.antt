pub mod Bound
mod Keys
pub mod Few
mod Worked
mod Sets
mod Places
mod Trails
mod Added
mod Meets
mod Adding
mod Changed
pub mod Economic
