pub mod FunctionTransitions
