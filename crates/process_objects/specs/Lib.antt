pub mod Accept
pub mod State
pub mod Process
