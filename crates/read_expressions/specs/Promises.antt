-- What the functions promise, in the order of the code.
pub mod Opening
pub mod Promises
