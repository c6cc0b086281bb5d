pub mod Search
pub mod Signs
pub mod Slots
pub mod Zeros
