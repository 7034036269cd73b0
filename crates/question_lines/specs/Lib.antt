pub mod Faults
pub mod Fields
pub mod Parts
pub mod TermLine
pub mod AtomLine
pub mod QuestionLine
