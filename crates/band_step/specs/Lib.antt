-- What the functions of a step under a plan promise, in the order of the code.
pub mod Promises
