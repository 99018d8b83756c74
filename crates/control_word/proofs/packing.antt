pub mod Bits
pub mod Cells
pub mod Fields
pub mod Handles
pub mod Halves
