pub mod Tally
pub mod Rising
pub mod Held
pub mod Merge
pub mod Rise
