pub mod Counting
pub mod Promised
