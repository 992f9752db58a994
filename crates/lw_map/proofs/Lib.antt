pub mod NetNames
pub mod FewPoints
pub mod PortNames
pub mod Names
pub mod Ranges
pub mod PlainNetlists
pub mod CellLaws
pub mod CoverNetlists
pub mod Certified
pub mod Mappings
pub mod Once
pub mod CertificateOnce
pub mod Roots
pub mod ChoiceLemmas
pub mod GateCount
pub mod Composed
pub mod Leaves
mod Traded
mod NeededGates
mod AnyTime
mod Deadlines
mod TradedNames
mod OwnNames
mod Earliest
mod Refusals
mod Problems
mod RootLabels
mod Tables
mod TableTexts
mod Drives
