-- What the functions that work on these definitions promise, and what that is stated with.
pub mod Flags
