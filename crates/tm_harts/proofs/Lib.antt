pub mod Idle
pub mod Turns
pub mod Seats
pub mod Crossing
pub mod Driving
pub mod Callers
