-- What the proofs of several functions use.
pub mod Fields
pub mod Indices
pub mod Opening
pub mod Levels
pub mod Operands
pub mod Operators
