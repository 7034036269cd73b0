pub mod Producer
pub mod Meets
pub mod Laws
