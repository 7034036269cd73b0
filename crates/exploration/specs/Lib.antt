pub mod Explored
pub mod Shown
pub mod Laws
pub mod Slots
pub mod machine_space
