pub mod Prelude
pub mod tables
pub mod Filled
pub mod FrameViews
pub mod contained
pub mod holding
