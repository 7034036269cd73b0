pub mod Word
pub mod Pool
pub mod Sv32
pub mod History
pub mod Shared
pub mod SharedHistory
pub mod Owned
