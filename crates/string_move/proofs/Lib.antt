pub mod Cuts
mod Filled
mod Moves
