pub mod Building
pub mod Checks
pub mod Fitting
pub mod Places
pub mod Positions
pub mod Products
pub mod Tables
