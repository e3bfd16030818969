-- What the functions promise, in the order of the code.
pub mod Standing
pub mod Ranges
pub mod Fitting
pub mod Faults
