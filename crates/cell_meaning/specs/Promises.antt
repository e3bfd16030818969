-- What the functions that work on these definitions promise, and what that is stated with.
pub mod Listing
pub mod Leaves
pub mod Stands
