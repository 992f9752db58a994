pub mod Cutting
pub mod Hunts
pub mod Picks
pub mod Queries
pub mod QueryJobs
pub mod Sites
