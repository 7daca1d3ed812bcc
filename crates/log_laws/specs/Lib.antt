pub mod LogMoves
pub mod Spans
pub mod SpanWalk
pub mod StartsAnswered
pub mod StartExamples
