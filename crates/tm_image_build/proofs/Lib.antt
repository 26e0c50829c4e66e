pub mod Rows
pub mod NameLemmas
pub mod BuildLemmas
pub mod Opening
