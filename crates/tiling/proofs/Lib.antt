pub mod Places
pub mod Pass
