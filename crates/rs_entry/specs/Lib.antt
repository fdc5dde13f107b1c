pub mod Entries
pub mod Equality
pub mod WellFormed
