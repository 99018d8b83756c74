pub mod Tallies
pub mod Parts
pub mod Sums
