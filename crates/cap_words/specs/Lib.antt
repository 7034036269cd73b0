pub mod Kind
pub mod Name
pub mod Spelling
pub mod Text
