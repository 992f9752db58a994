pub mod SecondLook
pub mod Sites
pub mod Targets
pub mod Walks
