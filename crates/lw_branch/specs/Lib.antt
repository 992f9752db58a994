pub mod Intervals
pub mod Jobs
pub mod Needs
pub mod Pruned
pub mod Searching
pub mod Steps
