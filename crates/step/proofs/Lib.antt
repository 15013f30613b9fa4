pub mod Looks
pub mod Sticking
pub mod Gates
pub mod Good
