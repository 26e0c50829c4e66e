pub mod WordLemmas
pub mod SymbolLemmas
pub mod NamedLemmas
pub mod NameLemmas
pub mod BackLemmas
