pub mod Numeral
pub mod Bytes
pub mod Words
pub mod Spaced
pub mod Line
pub mod Reading
