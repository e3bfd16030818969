-- What the readers of statements promise.
pub mod Promises
