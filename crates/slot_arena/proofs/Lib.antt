pub mod Prelude
pub mod Cells
pub mod CellSteps
pub mod Crossing
