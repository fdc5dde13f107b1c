mod WorkedCases
pub mod AnyOrder
pub mod EndLaws
pub mod KeyHistories
pub mod Lawful
pub mod MadeLists
pub mod OrderLaws
pub mod OrderSteps
pub mod ReplyOrder
pub mod StoreLaws
pub mod WholeLogs
