pub mod CaseLemmas
pub mod Gates
pub mod Harts
