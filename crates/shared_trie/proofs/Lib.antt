pub mod Nodes
pub mod Reasons
pub mod Sinking
pub mod Steps
pub mod Sweeps
pub mod Ways
