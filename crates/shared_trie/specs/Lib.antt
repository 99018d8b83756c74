pub mod Places
pub mod Refusals
pub mod Sweeps
pub mod Tries
