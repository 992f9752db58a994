pub mod Checks
pub mod Clauses
pub mod Stores
