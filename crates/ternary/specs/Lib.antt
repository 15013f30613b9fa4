pub mod Values
pub mod Logics
