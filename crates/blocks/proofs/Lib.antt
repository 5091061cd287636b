pub mod First
pub mod Bits
pub mod Walk
