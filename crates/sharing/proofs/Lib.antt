pub mod Writing
pub mod OfLaws
pub mod Summing
