pub mod Turns
pub mod Fills
pub mod Freshness
