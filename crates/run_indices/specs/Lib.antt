-- What the functions that go over the written indices promise.
pub mod Promises
