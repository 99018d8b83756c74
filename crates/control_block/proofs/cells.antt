pub mod CellRetries
pub mod CellTries
pub mod CellSites
pub mod CellTrades
pub mod CellDesks
pub mod CellChoices
pub mod CellOutcomes
