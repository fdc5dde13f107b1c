pub mod Rule
pub mod Once
pub mod Turn
pub mod Thieves
pub mod Deques
pub mod Steps
pub mod Opening
pub mod Ids
