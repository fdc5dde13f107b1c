pub mod Answers
pub mod Counts
pub mod Handing
pub mod Kept
pub mod Visits
