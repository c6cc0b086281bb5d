pub mod Bounded
pub mod Faults
pub mod Held
pub mod Passed
pub mod Series
pub mod Single
