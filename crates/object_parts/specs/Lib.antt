pub mod Same
pub mod Part
pub mod SameLaws
pub mod Live
pub mod There
pub mod Objects
pub mod Slots
pub mod Table
