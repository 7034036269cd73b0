pub mod Operands
pub mod Forms
pub mod Assembly
pub mod Text
pub mod Mnemonics
