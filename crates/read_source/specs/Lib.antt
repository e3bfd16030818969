-- What checking a source promises.
pub mod Promises
