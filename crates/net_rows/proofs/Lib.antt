mod ConstructWalks
mod ConstructRows
mod BranchGives
mod RowRecords
pub mod NetTransitions
pub mod RowSizes
