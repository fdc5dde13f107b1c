pub mod CutLaws
pub mod DigitLaws
pub mod DigitPairs
pub mod DigitTable
pub mod NumberLaws
pub mod OnLiterals
pub mod ReadLaws
pub mod TextLaws
