mod Cases
pub mod MoveLaws
