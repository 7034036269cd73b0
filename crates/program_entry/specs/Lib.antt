pub mod Words
pub mod Streams
pub mod Said
pub mod Begins
