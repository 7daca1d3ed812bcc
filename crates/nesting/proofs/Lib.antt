pub mod Chains
pub mod Counts
pub mod Rules
pub mod Stacks
pub mod Walks
