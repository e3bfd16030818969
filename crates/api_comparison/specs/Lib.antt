-- Two grids compared: the definitions, and what the functions promise.
pub mod Differences
pub mod Promises
