pub mod Built
pub mod Counts
pub mod Drafts
pub mod Dropping
pub mod Masks
pub mod Overlapping
pub mod SameFacts
