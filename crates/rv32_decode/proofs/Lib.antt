mod Agreement
mod Back
pub mod RoundTrip
mod OneRow
