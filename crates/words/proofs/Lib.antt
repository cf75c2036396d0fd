pub mod Judging
pub mod Heading
pub mod InTurn
pub mod Rowing
