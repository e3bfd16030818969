-- What the functions that work on these definitions promise, and what that is stated with.
pub mod Passing
pub mod Printing
pub mod Rereading
pub mod Showing
pub mod Walking
