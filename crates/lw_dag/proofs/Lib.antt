pub mod Named
pub mod Names
pub mod Numbering
pub mod Ordered
pub mod Ranks
pub mod Rising
pub mod Searching
mod Settling
pub mod Sorting
pub mod Shared
