pub mod Texts
pub mod Restorations
pub mod Answered
