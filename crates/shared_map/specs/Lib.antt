pub mod Maps
pub mod Refusals
pub mod Sweeps
pub mod Openings
