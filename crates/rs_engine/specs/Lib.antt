pub mod Limits
pub mod Telling
