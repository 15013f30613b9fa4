pub mod Leading
pub mod Tables
pub mod Following
