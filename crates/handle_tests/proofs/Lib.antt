pub mod Hands
pub mod Parting
