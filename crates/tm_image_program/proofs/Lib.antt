pub mod Drawn
pub mod Bytes
pub mod Masks
pub mod Whole
