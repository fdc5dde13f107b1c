pub mod Bytes
pub mod Counting
pub mod Forming
pub mod Lawful
pub mod Lists
pub mod Ranges
pub mod RoundEnds
pub mod RoundSteps
pub mod RoundVerdicts
pub mod SameSelf
pub mod Stages
pub mod StoreParts
pub mod Telling
mod WorkedCases
