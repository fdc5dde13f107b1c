pub mod Delivering
pub mod Handling
pub mod Outs
pub mod Routes
pub mod Stores
