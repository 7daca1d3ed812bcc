pub mod Stores
pub mod Sums
