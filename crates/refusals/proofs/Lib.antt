pub mod Every
pub mod Refused
