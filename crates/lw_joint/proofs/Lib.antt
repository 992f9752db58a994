pub mod Columns
pub mod Staying
pub mod Telling
pub mod Whole
