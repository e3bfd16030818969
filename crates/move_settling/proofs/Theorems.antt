-- The theorems on runs of sources that move a pixel once.
pub mod Settling
