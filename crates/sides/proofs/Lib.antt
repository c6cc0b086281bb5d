pub mod Across
pub mod Least
pub mod Candidates
pub mod Rows
pub mod Blocked
