mod Bounds
pub mod Fronts
mod NewDesks
pub mod Places
pub mod Prefixes
mod SameIds
pub mod Sends
