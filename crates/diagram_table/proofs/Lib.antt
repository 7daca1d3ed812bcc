pub mod BranchRows
pub mod CellStores
pub mod HeldCells
pub mod RisingUses
pub mod UsesCut
pub mod UsesWalked
