pub mod Stays
pub mod Laws
pub mod First
pub mod Pace
