pub mod Cells
pub mod Compares
pub mod Sites
