pub mod Blank
pub mod Case
