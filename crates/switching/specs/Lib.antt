pub mod Lines
pub mod Chips
pub mod Phases
pub mod Switching
pub mod Histories
pub mod Theorem
pub mod Examples
