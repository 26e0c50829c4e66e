pub mod Strides
pub mod Windows
pub mod Reach
pub mod Places
pub mod Collected
