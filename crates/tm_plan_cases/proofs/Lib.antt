pub mod Counted
pub mod TableLemmas
