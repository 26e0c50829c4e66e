pub mod Cutting
pub mod Cut
pub mod Back
pub mod Printed
pub mod Pieces
mod Rows
