pub mod Cut
pub mod Acts
pub mod Reach
pub mod Laws
pub mod Passing
pub mod Separation
pub mod authority
pub mod isolation
