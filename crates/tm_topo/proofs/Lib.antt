pub mod KeyLemmas
pub mod Rows
pub mod RangeLemmas
