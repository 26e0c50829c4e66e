pub mod DifferenceLemmas
pub mod FitLemmas
pub mod HeaderLemmas
pub mod StandLemmas
