pub mod Aigs
pub mod Literals
pub mod Lookups
