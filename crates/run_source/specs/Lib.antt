-- A run of a source: what the functions promise.
pub mod Promises
