pub mod PartWords
pub mod Walking
