-- What the code's readers promise.
pub mod Promises
