pub mod Bits
pub mod Sums
pub mod Tests
pub mod Searches
pub mod Digits
pub mod Working
