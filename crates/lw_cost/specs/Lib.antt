pub mod Coming
pub mod Goals
pub mod Labels
pub mod Least
pub mod Matching
pub mod Values
