pub mod Points
pub mod Located
