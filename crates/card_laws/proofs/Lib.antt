pub mod Sizes
pub mod Several
pub mod Planes
pub mod Readings
pub mod Reach
