pub mod Size
pub mod Word
pub mod Registers
pub mod Table
pub mod Step
pub mod Answers
