pub mod Tails
pub mod Turns
pub mod Walks
pub mod Places
pub mod Standing
pub mod Accepted
pub mod Headed
pub mod Answers
