pub mod Lines
pub mod Leaves
pub mod Orders
pub mod Single
