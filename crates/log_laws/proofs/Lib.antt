pub mod SpanWalk
