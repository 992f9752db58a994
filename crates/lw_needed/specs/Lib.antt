pub mod Places
pub mod Needed
