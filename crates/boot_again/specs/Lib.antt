pub mod Boots
pub mod Again
pub mod Text
pub mod Ranges
