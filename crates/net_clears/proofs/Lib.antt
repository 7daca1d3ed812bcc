pub mod Weights
pub mod ClearRanges
pub mod PatternRecords
pub mod Kills
