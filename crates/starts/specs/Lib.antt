pub mod Gaps
pub mod Windows
pub mod Faults
pub mod Counting
