-- The check of the profile: what its functions promise.
pub mod Promises
