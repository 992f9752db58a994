pub mod Flips
pub mod Graphs
pub mod Holding
pub mod Indexing
pub mod Rows
pub mod Shared
