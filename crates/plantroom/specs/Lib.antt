pub mod Table
pub mod Requests
pub mod Calls
pub mod Starts
pub mod Transitions
pub mod Proved
