pub mod FaultLemmas
pub mod KindLemmas
pub mod LineLemmas
pub mod OrderLemmas
pub mod Rows
pub mod SpanLemmas
pub mod TilingLemmas
pub mod WordLemmas
