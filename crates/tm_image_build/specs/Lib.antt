pub mod Symbols
pub mod Built
pub mod Opened
