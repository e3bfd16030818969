-- The loop over the steps of a run.
pub mod Told
pub mod Promises
