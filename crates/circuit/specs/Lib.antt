pub mod Gates
pub mod Netlists
pub mod Chips
pub mod Texts
