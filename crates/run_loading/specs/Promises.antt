-- What the promises of several calls rest on.
pub mod Loaded
