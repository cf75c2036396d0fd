pub mod Split
pub mod Faults
pub mod Heads
pub mod Values
pub mod Each
pub mod Rows
