pub mod Lifting
pub mod Down
pub mod Holds
pub mod Loop
pub mod Located
