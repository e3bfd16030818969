-- Theorems about the definitions.
pub mod BandedStep
