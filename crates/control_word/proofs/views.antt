pub mod Teams
pub mod Names
pub mod Cutting
pub mod Merging
pub mod Resting
