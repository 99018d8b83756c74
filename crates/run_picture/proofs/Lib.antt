pub mod Elements
pub mod Paging
pub mod Showing
