pub mod LoopTransitions
