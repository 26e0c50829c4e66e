pub mod Shaped
pub mod Collected
pub mod Tables
pub mod Layout
pub mod Streams
