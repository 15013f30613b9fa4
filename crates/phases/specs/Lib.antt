pub mod Reads
pub mod Passes
