pub mod Instrs
pub mod Blocks
pub mod Verdict
pub mod Laws
