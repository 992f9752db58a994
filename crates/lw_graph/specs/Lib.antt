pub mod Graphs
pub mod Index
pub mod Kept
pub mod Ordered
pub mod Rows
