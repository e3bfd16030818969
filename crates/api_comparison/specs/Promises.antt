-- What the functions promise.
pub mod Comparing
pub mod Public
