pub mod Numbers
pub mod Differences
pub mod Spans
pub mod HeaderFaults
pub mod PartFaults
