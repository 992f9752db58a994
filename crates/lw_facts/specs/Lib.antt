pub mod Sorting
pub mod Sums
