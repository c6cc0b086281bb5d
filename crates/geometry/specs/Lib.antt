pub mod Weights
pub mod Corners
pub mod Paths
pub mod Cells
pub mod Steps
pub mod Neighbours
pub mod Parts
