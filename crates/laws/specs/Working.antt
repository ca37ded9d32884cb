pub mod Bits
pub mod Digits
pub mod Sums
