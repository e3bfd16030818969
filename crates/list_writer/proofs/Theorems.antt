-- Theorems about the definitions.
pub mod ReadBack
