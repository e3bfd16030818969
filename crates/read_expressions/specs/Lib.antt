-- What the readers of expressions promise.
pub mod Promises
