pub mod Counts
pub mod Functions
pub mod Phases
pub mod Covered
pub mod Together
pub mod Theorem
pub mod Examples
