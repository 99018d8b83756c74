pub mod Words
pub mod Blocks
pub mod Cells
pub mod Steps
pub mod PendingCalls
pub mod Worlds
