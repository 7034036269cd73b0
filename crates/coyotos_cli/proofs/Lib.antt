pub mod Words
mod Confined
