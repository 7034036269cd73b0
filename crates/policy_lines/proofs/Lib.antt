pub mod Made
mod Restoring
mod Filtered
mod Results
pub mod Passing
mod Deciding
pub mod More
mod With
mod Thinned
mod Leaving
mod Named
mod Among
mod Crossed
mod Needing
mod Adding
mod Telling
