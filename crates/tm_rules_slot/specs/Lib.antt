pub mod Teams
pub mod Slots
pub mod Laws
