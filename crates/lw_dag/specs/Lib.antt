pub mod Graphs
pub mod Names
pub mod Ordering
pub mod Ranking
pub mod Rising
pub mod Searching
pub mod SmallGraphs
