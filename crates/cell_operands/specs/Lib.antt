-- What the evaluators of expressions promise.
pub mod Promises
