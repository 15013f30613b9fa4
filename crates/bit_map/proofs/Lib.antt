mod Digits
mod Lowest
mod Rows
