pub mod Stays
pub mod Alike
pub mod Fronts
pub mod Turns
pub mod Right
pub mod Entries
pub mod Dwords
