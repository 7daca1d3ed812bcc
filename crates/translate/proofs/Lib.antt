pub mod NetBytes
pub mod Sizes
pub mod AnswerAndArea
