pub mod Each
pub mod Early
pub mod Ending
pub mod Fitting
pub mod GoodWords
pub mod Once
pub mod Stands
pub mod WrittenLines
