pub mod Rule
pub mod Steps
pub mod Now
pub mod Inside
