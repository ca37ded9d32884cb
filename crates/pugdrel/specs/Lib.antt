pub mod Reports
pub mod ArrayCalls
pub mod LineCalls
pub mod SheetCall
pub mod FileCalls
pub mod Version
pub mod Working
