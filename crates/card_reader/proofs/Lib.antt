pub mod Words
pub mod Digits
pub mod Planes
pub mod Meanings
