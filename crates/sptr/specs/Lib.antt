pub mod CommandLine
pub mod Lines
pub mod OutcomePages
pub mod Outcomes
pub mod Parts
pub mod Serving
pub mod Sources
