pub mod Actions
pub mod Laws
pub mod Reshapings
pub mod Verdicts
