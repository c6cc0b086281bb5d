pub mod Words
pub mod Slots
pub mod Digits
pub mod Tests
pub mod Shows
pub mod Aligned
pub mod Carries
