mod Cycle
mod KeptSteps
mod Ran
mod Spared
