pub mod Pace
pub mod Budget
