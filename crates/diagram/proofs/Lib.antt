pub mod Freshness
