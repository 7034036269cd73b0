pub mod InRange
pub mod Fields
pub mod Table
pub mod Word
pub mod Groups
