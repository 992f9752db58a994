pub mod Told
pub mod Steps
pub mod Comings
pub mod Hashes
pub mod Given
pub mod WordLines
pub mod SignalNames
pub mod Kept
