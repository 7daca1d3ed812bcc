mod Becomes
mod Turns
mod Calls
pub mod Refusals
