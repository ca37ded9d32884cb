pub mod ArrayLaws
pub mod WrittenLines
mod WordLaws
pub mod ArrayEncoding
mod PackedEncoding
mod Loops
pub mod Refusing
pub mod RefusalExamples
mod PromiseExamples
pub mod RowLook
mod PackedLaws
mod HalfLaws
mod RunLaws
mod ReportLaws
mod EncodeLaws
mod DecodeLaws
pub mod Theorem
pub mod SentArrays
pub mod ClosedLaws
pub mod HalfLines
pub mod FillingOrder
pub mod SheetExamples
pub mod Fillings
