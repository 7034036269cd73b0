mod Cuts
mod Found
pub mod NumeralLaws
mod Numerals
pub mod WordLaws
