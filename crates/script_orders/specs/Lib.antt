pub mod Coverage
pub mod Differences
pub mod Found
pub mod Orders
pub mod Outcomes
pub mod Seen
pub mod Sorting
pub mod Tellings
