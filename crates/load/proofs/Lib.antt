pub mod Places
pub mod Shuffles
pub mod Damages
pub mod Hits
mod Numbering
mod Refusing
mod Changing
mod ShuffleLoop
pub mod EntryLaws
mod Making
pub mod Examples
pub mod Acceptance
