mod WindowCases
pub mod Onward
