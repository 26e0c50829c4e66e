pub mod Lexing
pub mod Tiling
pub mod Lines
