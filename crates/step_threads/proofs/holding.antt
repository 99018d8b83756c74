pub mod Ends
pub mod Few
pub mod PendingCalls
pub mod Least
pub mod Members
pub mod Others
pub mod Storing
