-- The laws by which calls are joined, and the theorems.
pub mod ListLaws
pub mod RunLaws
pub mod Theorems
