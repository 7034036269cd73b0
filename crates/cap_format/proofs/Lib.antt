mod Words
pub mod KindNumbers
pub mod Ranges
