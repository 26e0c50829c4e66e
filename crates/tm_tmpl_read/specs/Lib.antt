pub mod Grammar
pub mod Steps
pub mod Spelled
pub mod Writable
