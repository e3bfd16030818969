-- What the proofs of several functions use.
pub mod Tokens
pub mod Reasons
