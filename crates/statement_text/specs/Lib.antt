pub mod Words
pub mod Text
pub mod ReadsBack
pub mod Lists
pub mod Laws
