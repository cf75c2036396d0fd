pub mod Rounds
pub mod Asking
pub mod Delivering
pub mod OfStandby
pub mod OfStandbyPromise
