pub mod Faults
pub mod Sizes
pub mod Codes
pub mod Words
pub mod Family
pub mod Places
pub mod Calls
pub mod Finest
