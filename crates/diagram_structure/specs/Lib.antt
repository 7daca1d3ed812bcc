pub mod Structure
pub mod Walked
