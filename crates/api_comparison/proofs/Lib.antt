-- The laws by which the functions are proved, and the theorem on swapped grids.
mod LengthLaws
mod DifferenceLaws
pub mod Theorems
