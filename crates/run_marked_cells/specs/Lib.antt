-- What the functions over marked cells promise.
pub mod Promises
