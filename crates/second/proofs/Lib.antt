mod Loops
mod Places
pub mod Ranges
mod Digits
mod Parts
mod Saying
