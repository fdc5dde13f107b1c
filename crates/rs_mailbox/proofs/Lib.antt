pub mod Opens
pub mod Steps
pub mod Making
pub mod Orders
pub mod Pops
pub mod Lent
