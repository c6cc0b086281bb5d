pub mod Stepped
pub mod Words
pub mod Edges
