pub mod Map
pub mod Slots
