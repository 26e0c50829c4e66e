pub mod Sums
pub mod Pace
pub mod Budget
