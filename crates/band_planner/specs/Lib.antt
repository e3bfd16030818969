-- The plan check, the planner and the border rows: what the functions promise.
pub mod Promises
