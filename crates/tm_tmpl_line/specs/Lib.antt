pub mod Readings
pub mod Pieces
