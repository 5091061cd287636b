pub mod Passes
pub mod Bits
