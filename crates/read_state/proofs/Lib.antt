-- What the proofs of several functions use, here and in the crates of the readers: the laws of what a reader gives, and of where it goes.
pub mod Reasons
pub mod Steps
pub mod Turns
pub mod Going
pub mod Leaves
