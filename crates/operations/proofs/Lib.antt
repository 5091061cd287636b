pub mod Borders
pub mod Chosen
