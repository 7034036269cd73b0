pub mod HartSteps
pub mod KeptSteps
pub mod Spared
pub mod Untraced
