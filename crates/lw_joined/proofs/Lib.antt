pub mod Alone
pub mod Covers
pub mod FormCovers
mod Held
pub mod Joins
pub mod LeftOut
pub mod LinkedForms
pub mod MadeJoins
mod NoLater
mod Pairs
pub mod Placing
pub mod Renamed
pub mod Unions
mod Verdicts
