-- Theorems about the definitions.
pub mod SourceLoaded
