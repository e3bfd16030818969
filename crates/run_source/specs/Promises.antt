-- What the functions promise: the public ones, and the others in the order of the code.
pub mod Public
pub mod Agreement
pub mod Sourcewise
