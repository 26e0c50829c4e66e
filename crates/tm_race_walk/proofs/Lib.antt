pub mod Trails
pub mod OneSlot
pub mod Shaping
pub mod Telling
pub mod Moving
pub mod Forwarding
