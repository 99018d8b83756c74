pub mod Parts
pub mod PartingOrder
pub mod PartingStates
pub mod PartingDesks
pub mod PartingSplitDesks
pub mod PartingMerge
pub mod PartingJoin
pub mod PartingCounts
