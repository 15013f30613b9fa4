pub mod Folds
pub mod Meant
