mod Stores
pub mod Writing
pub mod Runs
pub mod Bytes
pub mod Nets
pub mod Small
