pub mod Meet
pub mod Memory
pub mod Laws
