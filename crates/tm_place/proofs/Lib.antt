pub mod PartLemmas
pub mod SpotLemmas
pub mod AccessLemmas
pub mod AllowedLemmas
pub mod ApartLemmas
pub mod PlacementLemmas
mod Rows
pub mod DrawLemmas
pub mod PlaceLemmas
