pub mod Listed
pub mod Buffer
pub mod Start
pub mod Seen
pub mod Turns
pub mod Rounds
pub mod Fields
pub mod Budget
