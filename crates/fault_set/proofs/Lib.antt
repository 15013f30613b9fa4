pub mod Tally
mod Walked
