pub mod Calls
pub mod Lengths
pub mod Lists
pub mod Turns
