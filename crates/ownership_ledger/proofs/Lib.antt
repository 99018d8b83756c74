pub mod Prelude
pub mod Views
pub mod Numbers
pub mod Kept
pub mod Add
pub mod Look
pub mod Parts
pub mod Ends
