pub mod Joint
pub mod Pairs
