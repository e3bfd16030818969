-- Theorems, and worked examples.
pub mod Property3
