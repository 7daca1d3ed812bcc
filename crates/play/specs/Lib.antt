pub mod Demand
pub mod Played
