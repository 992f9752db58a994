pub mod Drafting
pub mod Facts
pub mod Modes
pub mod Splits
pub mod Parts
