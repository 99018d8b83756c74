pub mod Ends
pub mod Followed
pub mod Lines
pub mod Running
pub mod Runs
pub mod Sinks
pub mod StepRuns
pub mod TurnLists
