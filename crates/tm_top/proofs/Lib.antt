pub mod Owing
pub mod Words
