pub mod Filling
pub mod Netlists
pub mod Plain
