-- What reading the cell declaration promises.
pub mod Promises
