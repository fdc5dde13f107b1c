pub mod Bodies
pub mod FaultTexts
pub mod FirstFault
pub mod Grammar
pub mod Logs
pub mod Outcomes
pub mod Reading
pub mod Steps
