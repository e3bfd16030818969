-- The theorems on calls that are joined.
pub mod Joining
