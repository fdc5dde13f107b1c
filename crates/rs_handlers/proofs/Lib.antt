pub mod Handing
pub mod WholeOutcomes
