pub mod Covers
pub mod Orders
pub mod Nets
pub mod Choosing
pub mod Gates
pub mod Assembling
pub mod Jobs
