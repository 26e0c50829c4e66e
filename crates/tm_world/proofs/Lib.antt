pub mod Accesses
pub mod Options
pub mod Prefix
pub mod Replaying
mod Differing
mod Rows
pub mod Streams
pub mod Trails
