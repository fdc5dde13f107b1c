pub mod Histories
pub mod KeyCodes
pub mod Outcomes
pub mod Replies
pub mod Runs
pub mod Writes
