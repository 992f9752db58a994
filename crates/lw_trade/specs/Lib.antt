pub mod Assembly
pub mod Placed
pub mod Traded
pub mod Trades
