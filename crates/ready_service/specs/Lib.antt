pub mod Service
pub mod Laws
