pub mod Widths
pub mod Within
pub mod Words
