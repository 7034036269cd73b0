pub mod Fields
pub mod Values
pub mod Statements
pub mod Image
pub mod Laws
pub mod Added
pub mod Unpacked
pub mod Reader
