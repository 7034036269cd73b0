pub mod Printed
mod Called
pub mod Capabilities
pub mod Lines
pub mod Fields
mod Instructions
pub mod Statements
pub mod Listed
mod Events
mod HasLines
