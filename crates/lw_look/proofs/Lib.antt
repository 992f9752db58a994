mod AreaSums
mod CellMatches
mod Deciding
mod Early
mod NetDepths
pub mod Networks
mod RightLists
