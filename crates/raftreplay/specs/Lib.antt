pub mod Expected
pub mod Kept
pub mod Limited
pub mod Settings
pub mod Statuses
pub mod Words
