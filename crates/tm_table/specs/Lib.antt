pub mod Table
pub mod Words
pub mod State
pub mod Row
pub mod Ops
pub mod Adds
