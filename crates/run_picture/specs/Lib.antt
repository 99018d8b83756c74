pub mod ElementTexts
pub mod Elements
pub mod Pages
pub mod Shown
