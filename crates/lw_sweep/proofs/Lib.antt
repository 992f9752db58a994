pub mod Equals
pub mod Growing
pub mod Simple
pub mod Standing
