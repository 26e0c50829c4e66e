pub mod Reports
pub mod Limits
pub mod Stops
pub mod Images
pub mod Built
pub mod Halting
pub mod Simulations
