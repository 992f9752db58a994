pub mod Ands
pub mod Standing
pub mod Pairs
