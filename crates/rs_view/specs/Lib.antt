pub mod Cuts
pub mod Doors
pub mod Finding
pub mod Publishing
pub mod Views
