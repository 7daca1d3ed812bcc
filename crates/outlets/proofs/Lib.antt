pub mod Counting
pub mod Scenarios
pub mod Matching
pub mod Passes
