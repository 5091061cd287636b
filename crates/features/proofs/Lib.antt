pub mod Sums
pub mod Columns
pub mod Statuses
