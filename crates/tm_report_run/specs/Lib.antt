pub mod Verdicts
pub mod Report
