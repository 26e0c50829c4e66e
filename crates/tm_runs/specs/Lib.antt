pub mod Machine
pub mod Runs
pub mod World
pub mod Shadow
pub mod Course
pub mod Phases
