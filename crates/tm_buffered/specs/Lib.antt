pub mod Moments
pub mod Signals
pub mod Laws
