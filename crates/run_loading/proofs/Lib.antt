-- A source that a call has loaded: the theorem.
pub mod Theorems
