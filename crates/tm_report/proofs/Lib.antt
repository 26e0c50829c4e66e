mod Rows
pub mod Growing
