pub mod Acts
pub mod Parts
pub mod Pictures
pub mod Pointers
pub mod Recording
