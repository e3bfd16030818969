-- The theorems of bands of rows.
pub mod Theorems
