pub mod Journaled
pub mod Entries
