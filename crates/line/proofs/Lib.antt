pub mod CellLaws
pub mod PackBits
mod Packing
pub mod RowLaws
mod SumLaws
mod Flips
mod Decoders
pub mod Distances
pub mod Changes
mod Mending
pub mod LineLaw
mod Choosing
mod Tries
pub mod Refusing
mod EntryLaws
pub mod ClauseLaws
pub mod CountLaws
pub mod Examples
pub mod ClauseExamples
pub mod PromiseExamples
pub mod CodeExamples
pub mod FillingNumbers
pub mod LongExamples
mod Reaching
mod Settling
mod KnownCells
mod Starting
mod Masking
pub mod OneCodeword
mod NoCodeword
mod Walking
pub mod LineEncoding
pub mod UnitLaws
pub mod Bounds
