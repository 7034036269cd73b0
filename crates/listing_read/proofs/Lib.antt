mod CapWords
mod NameIndex
mod Pairs
mod Causes
mod Follows
