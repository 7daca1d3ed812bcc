pub mod FiredCalls
pub mod LineLengths
pub mod StateLengths
pub mod WrittenCalls
