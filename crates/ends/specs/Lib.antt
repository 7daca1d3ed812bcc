pub mod ReadyEnds
