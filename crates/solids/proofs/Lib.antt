pub mod Tests
pub mod Numbers
pub mod Rows
pub mod Seams
