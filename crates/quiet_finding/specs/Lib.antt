pub mod Comers
pub mod Watched
pub mod Walks
pub mod Passing
pub mod Writing
pub mod Reaching
pub mod Leads
