pub mod StateWalks
pub mod Cases
pub mod Refines
pub mod Calls
