pub mod Load
pub mod Entries
pub mod Working
