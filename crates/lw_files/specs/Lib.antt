pub mod Steps
pub mod Sources
pub mod Reading
pub mod Read
pub mod Texts
pub mod Kinds
pub mod Faults
