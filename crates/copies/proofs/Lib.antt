pub mod Turns
pub mod UsesCounted
pub mod RowsCounted
pub mod CopiesNumbered
pub mod Fronts
pub mod CopiesCounted
pub mod Plants
