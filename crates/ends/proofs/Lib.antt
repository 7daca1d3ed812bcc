pub mod LaidNets
pub mod Readied
