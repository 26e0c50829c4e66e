pub mod Words
pub mod Append
