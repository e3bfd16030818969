-- Theorems, and worked examples.
pub mod Kept
pub mod FaultLaws
