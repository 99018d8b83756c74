pub mod Ownership
pub mod Lending
