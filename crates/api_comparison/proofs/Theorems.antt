-- Theorems about the definitions.
pub mod Swap
pub mod Pairs
