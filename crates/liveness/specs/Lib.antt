pub mod Fired
pub mod AtReached
pub mod Theorems
