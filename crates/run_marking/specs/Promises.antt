-- What the functions promise, in the order of the code.
pub mod Opened
pub mod Noting
