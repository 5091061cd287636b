pub mod Paused
