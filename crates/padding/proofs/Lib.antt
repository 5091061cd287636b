pub mod Put
pub mod Columns
pub mod Filled
pub mod Around
pub mod Status
pub mod Luma
