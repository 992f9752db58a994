pub mod Ending
pub mod Frames
pub mod Kept
pub mod Latches
pub mod Standing
pub mod Starts
pub mod Texts
