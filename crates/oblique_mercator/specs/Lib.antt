pub mod Parameters
pub mod Projection
pub mod Forward
pub mod Reverse
pub mod Bounded
