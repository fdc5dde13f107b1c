pub mod BothWays
pub mod CanonLaws
pub mod CountedLogs
pub mod FaultLaws
mod FaultVectors
pub mod FieldLaws
pub mod FoundBodies
pub mod FoundEntries
pub mod FoundLines
pub mod FoundTexts
pub mod LongTexts
pub mod OnLiterals
pub mod OnlyBodies
pub mod OnlyEntries
pub mod OnlyTexts
mod OutcomeVectors
pub mod Repeats
pub mod Runs
pub mod SoFar
mod TextVectors
pub mod Totals
pub mod Whole
