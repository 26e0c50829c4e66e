pub mod First
pub mod Waits
pub mod Laws
