pub mod Meaning
pub mod Readable
pub mod Said
