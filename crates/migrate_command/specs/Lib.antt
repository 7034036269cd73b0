pub mod Migrate
pub mod Same
