mod Values
mod Points
mod Verdicts
mod Zeros
pub mod Numerals
pub mod Shapes
pub mod Six
mod Written
pub mod Texts
