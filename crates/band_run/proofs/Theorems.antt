-- The theorem on a run under a plan.
pub mod AsFull
mod BandedCases
