-- The theorems on lists.
pub mod Theorems
pub mod Passing
pub mod Rereading
pub mod Walking
