pub mod Seclusion
pub mod Rewrite
pub mod Settled
pub mod Quiet
pub mod Laws
