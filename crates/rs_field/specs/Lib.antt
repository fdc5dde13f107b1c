pub mod Digits
pub mod Fields
pub mod Forms
pub mod Gives
pub mod Lines
