pub mod RowStores
pub mod TokenMoves
pub mod FunctionMoves
pub mod MovesAre
pub mod FileMoves
pub mod BusyRows
