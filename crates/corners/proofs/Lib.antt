pub mod Arrays
pub mod Levels
