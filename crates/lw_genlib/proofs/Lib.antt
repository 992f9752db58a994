pub mod Agreeing
pub mod Assignments
mod Begun
pub mod Bits
mod Delays
mod Evaluating
mod Faultless
mod Fronts
mod Grammars
mod NameRuns
pub mod MergeLemmas
mod LibraryExamples
mod Lines
mod Listed
mod Names
mod Onward
mod Opening
mod Pieces
mod Pins
mod Plain
mod Running
mod CheckLemmas
mod Small
mod Spelled
mod Spelling
mod Stacks
mod Standings
mod Steps
mod Strokes
mod Tables
mod Taking
mod Texts
mod Zips
pub mod LibraryKept
pub mod Shared
