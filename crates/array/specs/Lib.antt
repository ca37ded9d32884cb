pub mod Arrays
pub mod Encoding
pub mod Refusals
pub mod Halves
pub mod Plain
pub mod Entries
pub mod Working
