pub mod Search
pub mod Fresh
pub mod Moves
