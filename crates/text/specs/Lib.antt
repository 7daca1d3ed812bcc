pub mod Laid
pub mod LaidLaws
pub mod Letters
pub mod NumberLengths
