pub mod PieceLemmas
pub mod TokenLemmas
pub mod FormLemmas
pub mod StatementLemmas
pub mod Rows
