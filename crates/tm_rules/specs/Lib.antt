pub mod Admitting
pub mod Laws
