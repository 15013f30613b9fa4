pub mod Descriptions
pub mod Written
pub mod Reading
pub mod Law
