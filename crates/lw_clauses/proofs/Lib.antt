pub mod Antecedents
pub mod Leaving
pub mod Storing
