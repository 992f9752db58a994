pub mod Arriving
mod Descent
mod Picking
mod Sorting
pub mod Assembly
mod ChosenMatches
mod ClassChoices
mod ClassNets
mod GateLists
mod Places
mod Uncovered
pub mod PortLists
