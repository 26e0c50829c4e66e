pub mod Changing
pub mod Chained
