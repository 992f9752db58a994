pub mod Draws
pub mod Drawing
pub mod Generated
