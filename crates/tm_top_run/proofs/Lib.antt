pub mod Silent
pub mod Exact
pub mod Traces
pub mod Telling
pub mod Scripts
pub mod Running
