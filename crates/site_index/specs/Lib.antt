pub mod Sites
pub mod Numbers
