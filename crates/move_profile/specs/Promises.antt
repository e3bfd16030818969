-- What the functions promise: how the public call's answer is told, and the others in the order of the code.
pub mod Public
pub mod Standing
pub mod Fields
pub mod Moves
pub mod Flags
