pub mod Better
pub mod Floors
pub mod Found
pub mod Opens
pub mod Picks
pub mod Refusals
pub mod RootLists
pub mod Sites
