pub mod Underway
mod UseArcs
pub mod CountTurns
mod CountArcs
pub mod FunctionRecords
pub mod UseSizes
