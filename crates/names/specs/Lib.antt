-- The name list, and what the search for a name promises.
pub mod Names
pub mod Promises
