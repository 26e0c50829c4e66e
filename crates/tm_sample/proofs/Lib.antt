mod Rows
mod Puts
mod Topology
mod Template
mod Ruled
pub mod Accepted
pub mod Lengths
pub mod Small
