pub mod Words
pub mod Tidy
pub mod Moment
pub mod Lawful
pub mod Keeping
pub mod Sitting
