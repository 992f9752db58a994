pub mod Places
pub mod Unions
pub mod Joins
pub mod Renaming
pub mod Choices
pub mod Covering
