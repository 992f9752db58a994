pub mod Arenas
pub mod Gathering
pub mod Limits
pub mod Lines
pub mod Reading
pub mod Standing
pub mod Texts
pub mod Words
