mod Bracketings
mod Counts
mod Growth
pub mod Keeping
pub mod LibraryLaws
mod Meanings
mod Placement
mod Running
mod Sizes
mod Spelling
