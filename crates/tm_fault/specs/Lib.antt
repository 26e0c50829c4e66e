pub mod Script
pub mod Spelled
pub mod Causes
pub mod Marks
