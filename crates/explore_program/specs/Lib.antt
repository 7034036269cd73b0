pub mod Stated
pub mod Posed
pub mod explored_text
pub mod Told
pub mod Wanting
pub mod Program
pub mod Slots
pub mod Theorem
