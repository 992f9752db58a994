pub mod Noting
pub mod Sorting
pub mod Descent
