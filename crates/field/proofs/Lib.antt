mod Doubling
pub mod Primitive
pub mod Powers
pub mod Products
pub mod Uniqueness
pub mod PowerTable
pub mod Weights
mod Filling
mod Reading
pub mod Locating
mod Search
mod Finding
mod PlaceTable
