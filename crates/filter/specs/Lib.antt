pub mod Windows
pub mod Gathered
pub mod Groups
pub mod Taps
