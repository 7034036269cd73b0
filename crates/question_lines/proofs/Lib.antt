mod Parting
mod TermSteps
