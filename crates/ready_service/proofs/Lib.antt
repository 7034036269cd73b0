mod Positions
mod Rows
mod Parts
mod Instructions
mod Served
