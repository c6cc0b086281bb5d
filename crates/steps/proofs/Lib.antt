pub mod Stepped
pub mod Laws
pub mod Fields
pub mod Words
