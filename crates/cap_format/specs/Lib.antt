pub mod Kind
pub mod Restr
pub mod Guard
pub mod Capability
pub mod Weakening
pub mod Spelling
pub mod Codes
pub mod Item
