-- The theorems.
pub mod Theorems
pub mod ShapeLaws
