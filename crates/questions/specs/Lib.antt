pub mod Choice
pub mod Term
pub mod TermTree
pub mod TermCode
pub mod Atom
pub mod Question
pub mod Asking
