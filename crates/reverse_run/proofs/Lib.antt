mod Keeping
pub mod Unwinding
mod Called
