pub mod Ends
pub mod FieldFaults
pub mod PlainSums
