pub mod Texts
pub mod ByKind
pub mod Meanings
