pub mod Finding
pub mod Checking
pub mod Reading
pub mod Ruling
mod Rows
