pub mod Grammar
pub mod Reply
pub mod Tallies
pub mod Lines
