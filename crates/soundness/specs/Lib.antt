pub mod Regions
pub mod Leaves
pub mod Soundness
pub mod Changes
pub mod Sides
pub mod Inner
pub mod Meshes
