mod SwapLaws
pub mod ByteLaws
mod GatherLaws
pub mod ZeroLaws
pub mod PairLaws
mod SumLaws
pub mod Halves
pub mod GridLaws
