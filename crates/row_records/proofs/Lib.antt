pub mod Fields
pub mod RowsFit
pub mod RowsLaid
pub mod RowsRead
