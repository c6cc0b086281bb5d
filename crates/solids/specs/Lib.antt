pub mod Triangles
pub mod Solids
pub mod Seams
