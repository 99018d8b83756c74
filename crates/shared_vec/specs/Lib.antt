pub mod Changes
pub mod Cursors
pub mod Refusals
pub mod Sorts
pub mod Vectors
pub mod Walks
pub mod WeakVectors
