pub mod Masks
pub mod Exact
