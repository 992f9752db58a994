pub mod Bits
pub mod BlockLemmas
pub mod PathLemmas
pub mod SimLemmas
pub mod Standings
pub mod Once
