-- What the functions promise.
pub mod Promises
