pub mod WordLemmas
pub mod PlaneLemmas
