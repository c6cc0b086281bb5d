pub mod Digits
pub mod Tiled
pub mod Presence
pub mod Asked
pub mod Rows
