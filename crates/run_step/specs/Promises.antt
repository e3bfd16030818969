-- What the functions promise, in the order of the code.
pub mod Stepping
pub mod Turns
pub mod Rows
