pub mod Chains
pub mod Ending
pub mod Parts
pub mod Histories
pub mod Replies
pub mod Silence
pub mod Steps
