pub mod Decisions
pub mod Changes
pub mod Stores
pub mod BusyRows
pub mod UseAmounts
pub mod StandingCounts
pub mod UseRuns
