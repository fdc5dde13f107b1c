pub mod Addresses
pub mod Held
pub mod Machines
pub mod Readings
pub mod Views
