pub mod Branching
pub mod Falling
