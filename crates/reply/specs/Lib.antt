pub mod Inputs
pub mod Replies
