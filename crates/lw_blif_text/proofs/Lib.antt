pub mod Appending
pub mod Given
pub mod StandingFor
