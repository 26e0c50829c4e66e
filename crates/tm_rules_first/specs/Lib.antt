pub mod Windows
pub mod Rules
