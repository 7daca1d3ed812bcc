pub mod Columns
pub mod Filled
