pub mod Filling
pub mod Latest
pub mod NetValues
pub mod Pins
