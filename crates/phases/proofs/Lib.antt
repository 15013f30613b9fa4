pub mod Pins
pub mod Rows
pub mod Unread
pub mod Gates
