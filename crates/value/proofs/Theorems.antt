-- Theorems, and worked examples.
pub mod Laws
pub mod Truth
