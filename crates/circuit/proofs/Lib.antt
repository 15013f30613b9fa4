pub mod Kept
pub mod Resting
pub mod Trimmed
