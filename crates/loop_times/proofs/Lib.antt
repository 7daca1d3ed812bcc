pub mod Counted
pub mod Timeless
pub mod Looks
