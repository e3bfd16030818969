-- Row counts: what is asked of them, and what the functions promise.
pub mod RowQueries
pub mod Promises
