pub mod Areas
pub mod Depths
pub mod Lists
pub mod Looks
