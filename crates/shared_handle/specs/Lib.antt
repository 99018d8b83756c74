pub mod Calls
pub mod Endings
pub mod Locks
pub mod Visits
pub mod Piles
pub mod Prelude
