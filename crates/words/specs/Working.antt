pub mod Bytes
pub mod Grid
pub mod Network
pub mod Pairs
pub mod Quarters
pub mod Sums
pub mod Word
