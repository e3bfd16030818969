-- What the proofs of several functions use.
pub mod Spelling
pub mod Searching
pub mod Removing
