pub mod FirstFaults
pub mod Standing
