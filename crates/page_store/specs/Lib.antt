pub mod Page
pub mod CapPage
