pub mod Shares
pub mod Rounds
pub mod Onces
pub mod OfTickets
pub mod Meaning
pub mod Places
