mod Chosen
pub mod Dashed
mod Entered
mod Leaves
mod Plain
mod Rows
mod Tables
mod Usage
