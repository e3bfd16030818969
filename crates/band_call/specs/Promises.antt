-- What the functions promise, in the order of the code.
pub mod Asking
pub mod Calling
