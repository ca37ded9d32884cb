pub mod Field
pub mod Syndrome
pub mod Working
