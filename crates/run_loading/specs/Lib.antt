-- A source that a call has loaded.
pub mod Promises
