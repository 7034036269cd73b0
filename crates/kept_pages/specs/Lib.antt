pub mod Found
pub mod MapCachePages
pub mod SharedPages
