-- The writer: the call, and what the functions promise.
pub mod WriterCalls
pub mod Promises
