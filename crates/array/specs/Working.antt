pub mod EncodedRows
pub mod PackedRows
pub mod Runs
pub mod Sizes
pub mod Steps
