pub mod Members
pub mod Endings
