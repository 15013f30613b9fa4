pub mod Filled
pub mod Masks
pub mod Same
