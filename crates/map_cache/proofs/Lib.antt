pub mod Codes
mod Keyed
mod Invariant
mod Leaves
pub mod Coherence
pub mod Economy
mod Installing
pub mod Blank
mod Purged
mod Forgotten
pub mod Accesses
pub mod Listed
mod Entries
mod Held
mod Translated
