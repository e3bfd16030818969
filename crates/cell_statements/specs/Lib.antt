-- What the functions that run statements promise.
pub mod Promises
