pub mod Cutting
pub mod Epochs
pub mod Held
pub mod Keys
pub mod Ranges
