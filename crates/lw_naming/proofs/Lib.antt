pub mod ClassNumbers
pub mod FreeNames
pub mod GivenNames
pub mod NameCount
mod NamesGiven
mod NamesHeld
