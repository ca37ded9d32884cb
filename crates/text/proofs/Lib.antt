mod WritingLaws
mod Decimals
mod SheetLaws
mod Examples
pub mod ReadBack
pub mod PrintedExamples
