pub mod Places
pub mod Placed
pub mod Sound
pub mod Built
pub mod Range
