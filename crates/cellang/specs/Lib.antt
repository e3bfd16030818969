-- The row of records that a name list means, what the calls over it promise, and what those for programs in other languages promise.
pub mod Left
pub mod Storing
pub mod Promises
