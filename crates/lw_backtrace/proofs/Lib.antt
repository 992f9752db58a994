pub mod Checked
pub mod Inputs
pub mod Placed
