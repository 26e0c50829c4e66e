mod Owned
mod Kept
mod Placed
mod Rows
