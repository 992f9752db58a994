pub mod Codes
pub mod Growing
pub mod Libraries
pub mod Listed
pub mod Nodes
pub mod Placing
pub mod Steps
