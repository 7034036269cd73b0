mod Whole
mod Invoked
