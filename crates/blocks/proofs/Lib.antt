mod AddingLaws
mod PackedCells
mod Passing
mod Parts
pub mod FileLaws
pub mod Damage
mod ReadParts
mod WrittenParts
mod EntryLaws
pub mod Examples
