pub mod Fields
pub mod PolicyLine
pub mod DomainsLine
pub mod Names
pub mod Written
pub mod Replaced
pub mod Laws
