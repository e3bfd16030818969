-- What promises of several crates cite.
pub mod Buffers
