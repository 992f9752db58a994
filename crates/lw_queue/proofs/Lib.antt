pub mod Laning
pub mod Queueing
