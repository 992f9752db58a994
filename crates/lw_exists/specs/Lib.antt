pub mod Weakly
