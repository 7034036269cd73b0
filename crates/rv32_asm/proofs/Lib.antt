mod Lengths
mod Reading
pub mod RoundTrip
