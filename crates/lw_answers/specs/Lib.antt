pub mod Checked
pub mod Backs
pub mod Trades
pub mod ReadsBack
