pub mod Counting
pub mod Inside
pub mod Keeping
pub mod Locking
pub mod Owning
pub mod Slots
pub mod Values
