pub mod Reaching
pub mod Reading
pub mod Bounded
pub mod Cuts
pub mod Closing
pub mod Allowing
pub mod Theorems
mod Ranges
pub mod SendingHolding
pub mod SendingRuns
pub mod SendingViews
