pub mod Idle
pub mod Mills
pub mod Turns
pub mod Driven
