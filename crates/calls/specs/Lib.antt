pub mod CallList
pub mod LiveEnds
