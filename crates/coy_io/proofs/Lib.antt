mod Buffers
mod FirstLine
pub mod GivenLaws
pub mod LineLaws
mod Nexts
mod Parts
mod Puts
pub mod Texts
mod Windows
