pub mod Remembered
pub mod Moments
pub mod History
pub mod Calls
pub mod Reads
