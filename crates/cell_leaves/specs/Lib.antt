-- What the functions that fill the leaf table promise.
pub mod Promises
