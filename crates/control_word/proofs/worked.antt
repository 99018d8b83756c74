pub mod Cases
pub mod Coming
