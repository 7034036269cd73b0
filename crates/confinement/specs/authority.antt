pub mod Authority
pub mod Within
pub mod Laws
