-- What the functions promise, in the order of the code.
pub mod Printing
pub mod Lines
pub mod Admitting
pub mod Writing
