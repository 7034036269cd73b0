pub mod Walk
pub mod Trail
pub mod After
pub mod Bounds
pub mod Laws
