mod Sums
mod Building
mod Small
mod Running
