pub mod Files
pub mod Sided
pub mod Values
pub mod Paired
pub mod Reasons
pub mod Served
