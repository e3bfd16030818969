-- Calls of a run that is paused and resumed.
pub mod Joins
