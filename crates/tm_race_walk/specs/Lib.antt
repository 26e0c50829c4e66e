pub mod Forward
pub mod Slots
pub mod Shapes
pub mod Taints
