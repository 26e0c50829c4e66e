pub mod PrintLemmas
pub mod SpacedLemmas
pub mod ReadBackLemmas
pub mod BareLemmas
pub mod Rows
