pub mod Entries
pub mod Sweeps
pub mod Openings
