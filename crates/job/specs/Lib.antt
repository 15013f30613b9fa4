pub mod BuiltIn
pub mod Making
pub mod Answers
