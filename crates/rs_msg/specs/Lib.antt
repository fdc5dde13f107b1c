pub mod Cuts
pub mod Held
pub mod Maps
pub mod Names
pub mod SmallInput
