pub mod Texts
pub mod Changes
pub mod Sample
pub mod Inputs
pub mod Runs
pub mod Owed
pub mod Steps
