pub mod Schedule
pub mod Text
