pub mod Numbers
pub mod Pools
