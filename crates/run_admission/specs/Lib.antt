-- What is asked of a run before it begins, as the functions promise it.
pub mod Promises
