pub mod Tests
pub mod RangeLaws
pub mod Outcomes
pub mod Reasons
