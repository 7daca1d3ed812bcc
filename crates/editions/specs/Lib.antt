pub mod Checks
pub mod Conversions
