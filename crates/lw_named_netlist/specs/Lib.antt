pub mod Chains
pub mod Closing
pub mod Numbered
pub mod Ordering
pub mod Placing
pub mod Spelled
pub mod Starting
