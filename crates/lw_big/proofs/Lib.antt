pub mod Drafts
pub mod Examples
pub mod Kept
pub mod Lowering
pub mod Ranges
pub mod SignalNames
pub mod Stepping
