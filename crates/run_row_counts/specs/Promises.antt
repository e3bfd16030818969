-- What the functions promise.
pub mod Counting
pub mod Queries
pub mod Skipping
