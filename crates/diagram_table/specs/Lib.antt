pub mod Branches
pub mod Cells
pub mod CellStores
pub mod Held
